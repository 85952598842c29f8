pub mod PlannerAccepted
