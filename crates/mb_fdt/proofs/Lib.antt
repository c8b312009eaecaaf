pub mod SlotLemmas
pub mod ValueLemmas
pub mod RefusalLemmas
pub mod TextLemmas
pub mod StepLemmas
pub mod ReadLemmas
pub mod StretchLemmas
pub mod DescriptionLemmas
