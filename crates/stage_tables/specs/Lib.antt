pub mod StageTables
