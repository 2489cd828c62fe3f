mod CallRuns
mod Choosing
mod SetUpLines
