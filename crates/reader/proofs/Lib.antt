pub mod Stacks
pub mod Tops
pub mod Going
