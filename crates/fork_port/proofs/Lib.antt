pub mod HandedLemmas
pub mod TicketLemmas
pub mod Balance
pub mod CommandLemmas
pub mod StoreLemmas
