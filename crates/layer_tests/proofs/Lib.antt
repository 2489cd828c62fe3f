mod OpenBursts
mod KeptLimits
