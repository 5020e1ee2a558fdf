-- What the server reads from the GET of a call, and shows of it. The argument:
--
-- A call without ETags and Accept writes its path and, if it asks for one, a block (plain_options). The server
-- recognises each of these options, and the block can be written: so the request has no fault and is read as the client
-- wrote it (reads_all). Where the block begins within what the path holds, the store answers that part of it
-- (replies_part), and stays as it was (get_stays). A GET without Observe observes nothing (observes_none).
pub mod GetRead
