pub mod TableLaws
pub mod PartLaws
pub mod RightParts
pub mod FollowedLaws
pub mod Turns
pub mod LimitLaws
pub mod FollowedKept
pub mod FollowedTexts
