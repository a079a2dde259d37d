-- The grading put together from rows, signals, marks and classes.
pub mod Assembly
pub mod GradingLaws
