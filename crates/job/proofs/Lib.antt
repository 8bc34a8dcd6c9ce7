pub mod Order
pub mod Next
pub mod RankSearch
pub mod RankLaws
pub mod SlotLaws
pub mod NeedLaws
pub mod SoundLaws
pub mod Computing
