mod CallsJudged
mod Fillings
