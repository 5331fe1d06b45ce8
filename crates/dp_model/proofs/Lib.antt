pub mod JointNumberLemmas
pub mod NameLemmas
pub mod ModelLemmas
pub mod LimitLemmas
pub mod HorizonLemmas
pub mod TwoAgents
pub mod HorizonRows
