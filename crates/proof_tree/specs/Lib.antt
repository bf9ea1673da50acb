-- What the contracts of the exporter cite beside document 01's definitions.
pub mod Table
pub mod Opening
pub mod Labelling
pub mod Premisses
pub mod Terms
pub mod Exportable
pub mod Exporting
pub mod Wrapping
