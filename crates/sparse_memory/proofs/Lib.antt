pub mod CountedPages
pub mod FlagLaws
pub mod KnownLaws
pub mod ListedPages
pub mod PageLaws
pub mod RangeLaws
pub mod SharedPages
pub mod SparseLaws
pub mod StateLaws
mod Examples
