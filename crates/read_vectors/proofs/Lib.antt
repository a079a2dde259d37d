-- What the functions that read vectors rest on.
pub mod VectorLaws
pub mod VectorsOnce
