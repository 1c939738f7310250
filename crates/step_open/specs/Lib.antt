pub mod OpenNeeds
