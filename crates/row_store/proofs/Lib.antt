-- Laws of the slots of a row (Places) and of their tables (Tables).
mod Places
mod Tables
