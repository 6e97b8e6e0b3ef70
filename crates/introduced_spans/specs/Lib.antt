pub mod Publicity
pub mod Spans
pub mod PlanLaws
