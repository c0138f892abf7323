pub mod LayoutLaws
pub mod DecodeLaws
pub mod ShapeLaws
