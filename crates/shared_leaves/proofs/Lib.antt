pub mod LeafLemmas
pub mod ChoiceLemmas
pub mod RunLemmas
pub mod RunSteps
pub mod StepLemmas
