mod AskedLines
pub mod AskedRuns
pub mod AskedScripts
mod ListLemmas
mod ReceiptLemmas
