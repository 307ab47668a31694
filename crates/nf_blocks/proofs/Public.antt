pub mod HasLemmas
