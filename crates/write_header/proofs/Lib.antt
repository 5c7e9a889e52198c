-- Laws of the header as it is put.
-- Ahead: lines that are put one after the other. CodeLines: the lines of a list, 13 codes each, and of all lists. HeadLines: the header's other
-- lines, and what a head that fits gives. TopSteps: those before the carried lines, put one after the other. HeaderSteps: all of them.
-- FitCodes: the codes of fit tables, as the spelling functions ask for them.
mod Ahead
mod FitCodes
mod CodeLines
mod HeadLines
mod TopSteps
mod HeaderSteps
