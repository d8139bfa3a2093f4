pub mod Triangles
pub mod inner
