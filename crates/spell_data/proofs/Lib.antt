-- Laws of epoch records (EpochColumns) and rows (Spelled) as they are spelled.
mod EpochColumns
mod Spelled
