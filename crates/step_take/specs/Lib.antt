pub mod TakeNeeds
