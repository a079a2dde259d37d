-- The laws of keys, of the search for a class and of the found ones, and that they give the classes meant.
pub mod ClassLaws
pub mod WireNumbers
pub mod KeyMeaning
pub mod Chains
pub mod ClassMeaning
pub mod FoundMeaning
