-- What holds of each element of a list for one reason holds of it for another that follows from the first. The
-- argument: element by element, from the front (EachElement).
pub mod EachElement
