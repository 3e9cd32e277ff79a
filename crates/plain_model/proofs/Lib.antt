mod Calls
mod Folding
mod JournalLemmas
mod Opened
mod Works
