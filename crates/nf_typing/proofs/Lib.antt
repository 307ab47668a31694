pub mod KindAgreementLemmas
pub mod RightKindLemmas
pub mod RulePartLemmas
pub mod BodyLemmas
