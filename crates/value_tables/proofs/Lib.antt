mod Places
pub mod ShelfLaws
pub mod TableLaws
