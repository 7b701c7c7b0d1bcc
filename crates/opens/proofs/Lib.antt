pub mod OpenReturns
