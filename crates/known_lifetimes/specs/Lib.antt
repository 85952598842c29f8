pub mod OneUseMore
