mod Observed
mod FindingLines
mod FillLaws
mod UnansweredLines
mod Carried
mod UnknownNumbers
mod Wanting
