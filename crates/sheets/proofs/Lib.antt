pub mod RuleLaws
pub mod DrawLaws
