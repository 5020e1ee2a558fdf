-- Runs that crates above name. How each is shown: its calls and turns stand in the laws of both ends (Client and Server
-- of its folder), and its events are legal and smooth.
pub mod PutsLate
