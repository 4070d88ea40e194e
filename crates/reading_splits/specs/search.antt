pub mod SplitsInto
