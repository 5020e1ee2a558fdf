-- What proofs above use of a client's history. Laws has the clauses of the laws; the others say what each call does,
-- what its exchanges do and what it sees of what it observes.
pub mod EachCall
pub mod Exchanges
pub mod Laws
pub mod Watches
pub mod WhatIsBeyond
