pub mod ReleaseNeeds
