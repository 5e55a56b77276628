pub mod RuleLaws
pub mod FirstBroken
pub mod FoldLaws
