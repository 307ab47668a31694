mod BarLemmas
mod JudgedLemmas
mod PresentLemmas
mod CarryLemmas
mod MovingLemmas
mod LeavingLemmas
mod FurtherLemmas
mod HeldLemmas
mod LookupLemmas
pub mod Public
