pub mod AfterHeader
