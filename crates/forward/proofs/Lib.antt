pub mod GatherLaws
pub mod LookupLaws
pub mod Demand
pub mod TtlLaws
pub mod RespeltLaws
