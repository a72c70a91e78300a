pub mod Letters
pub mod Decimal
pub mod Reading
pub mod Hexadecimal
pub mod Place
pub mod Field
