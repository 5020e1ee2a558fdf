-- What proofs above use of a server's history. Laws has the clauses of the laws, EachCall what each call does, Silence
-- when its message layer is silent to a peer, Sources where what that sends comes from.
pub mod EachCall
pub mod Laws
pub mod Silence
pub mod Sources
