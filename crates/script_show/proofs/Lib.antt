mod Shows
mod Bytes
