pub mod SegMeta
pub mod Notes
