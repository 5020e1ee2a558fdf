pub mod FoldedItems
