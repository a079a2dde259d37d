-- Laws of a text at the front of a buffer, of what a writer holds, and of inputs that are told one behind the other.
pub mod Front
pub mod PutLaws
pub mod TellingLaws
