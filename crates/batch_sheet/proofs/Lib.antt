pub mod RuleLaws
pub mod SizeLaws
