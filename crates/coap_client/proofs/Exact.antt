pub mod LawOfAPast
