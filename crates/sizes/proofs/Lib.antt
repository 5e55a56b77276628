pub mod DegreeLaws
pub mod SizeLaws
