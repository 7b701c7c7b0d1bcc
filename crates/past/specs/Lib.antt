-- The gate before document 02, K14, for one array alone.
pub mod Single
-- The gate before document 02, K8, where nothing has a cost.
pub mod Plain
