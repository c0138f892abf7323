pub mod ConversionLaws
pub mod RoundLaws
