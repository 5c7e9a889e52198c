-- "Both sides of each edge": what the paper marks [P], as one table of two parts, numbers in 14 columns and dates. Assumes nothing.
use Rattle.field.proofs.Edges.{Decimals, decimals}
use Rattle.moment.proofs.Edges.{Dates, dates}

pub both_sides : Decimals × Dates
both_sides = (decimals, dates)
