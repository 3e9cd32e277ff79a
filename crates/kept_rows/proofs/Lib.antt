mod MarkLemmas
mod ScriptLemmas
