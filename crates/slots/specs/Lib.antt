pub mod InTables
