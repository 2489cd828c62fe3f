mod LetGo
mod Lent
mod Opened
