-- An end has nothing to do exactly where its `due` says so. The argument:
--
-- In the definition of a smooth run, an end has nothing to do where no step of a tick is ready. `due` tells the moment
-- of the first step that gets ready, and none where nothing waits. What stands in the law of an end is a chain of steps
-- of it (ChainOf), so each state comes from such steps, and the two say the same of it (ClientByDue, ServerByDue).
pub mod ChainOf
pub mod ClientByDue
pub mod ServerByDue
