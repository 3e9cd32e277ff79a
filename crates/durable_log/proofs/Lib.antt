mod Holding
mod LineEach
mod ReceiptLemmas
